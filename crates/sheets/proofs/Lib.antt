mod FirstPlace
mod Digits
