pub mod Handmade
