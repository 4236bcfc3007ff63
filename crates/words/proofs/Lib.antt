mod Comments
mod Comparing
mod Parting
