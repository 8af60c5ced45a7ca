mod Listed
mod Spelled
mod Back
