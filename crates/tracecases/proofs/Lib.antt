mod Telling
mod Back
