mod Handles
mod RawBoxes
mod Steps
mod Values
