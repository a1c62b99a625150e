mod Outcomes
mod Refused
mod Marks
mod Tested
