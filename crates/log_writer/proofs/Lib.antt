mod Laws
mod Back
mod Once
