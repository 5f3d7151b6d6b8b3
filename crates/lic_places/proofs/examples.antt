-- Computed equations: the check of what the definitions mean.
mod PlaceExamples
