mod Counts
mod Files
mod GoneOver
mod SetFaults
