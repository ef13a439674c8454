mod Counting
mod Giving
mod Holding
mod Offering
mod Taking
