-- Laws of the exported functions.
mod Tells
mod CheckedLaws
mod TablesLaws
