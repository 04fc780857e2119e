mod Joining
mod Worked
