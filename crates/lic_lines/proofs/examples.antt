-- Computed equations: the check of what the definitions mean. Their expected values were made by an independent program, or
-- are those of known texts.
mod ExamplesOfLines
mod ExamplesOfTokens
mod ExamplesOfRules
