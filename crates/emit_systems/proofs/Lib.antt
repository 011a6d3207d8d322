mod SystemSteps
mod TreeSteps
