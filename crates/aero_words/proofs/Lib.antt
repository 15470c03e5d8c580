mod LineRead
mod Numbers
mod Passed
mod Told
