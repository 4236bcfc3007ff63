mod KindWords
mod Ranges
