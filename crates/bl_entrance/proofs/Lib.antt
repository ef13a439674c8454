mod Admitting
mod Callings
mod FirstLines
