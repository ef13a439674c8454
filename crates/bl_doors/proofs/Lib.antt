mod Speaking
mod Giving
mod Placing
