-- Computed equations: the check of what the definitions mean. Their expected values were made by an independent program.
mod PieceCases
