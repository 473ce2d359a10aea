pub mod Parser
pub mod Steps
pub mod Response
