-- How the program ends on arguments that are written out.
mod EndingExamples
