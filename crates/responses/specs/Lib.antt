pub mod Type13
