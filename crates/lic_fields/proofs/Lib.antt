mod Characters
mod LineFronts
mod LineParts
mod PlainBytes
mod Thousands
