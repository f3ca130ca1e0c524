mod Charges
mod Entries
