pub mod OfFaulty
