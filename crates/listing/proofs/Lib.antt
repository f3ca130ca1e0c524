mod Columns
mod Listing
