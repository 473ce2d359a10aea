pub mod Playing
pub mod Beginning
