pub mod OfCalls
