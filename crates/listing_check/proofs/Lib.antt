mod Meeting
mod Walking
mod Checking
