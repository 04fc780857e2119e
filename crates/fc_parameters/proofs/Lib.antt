mod DateEdges
mod FieldTypes
mod RangeNumbers
mod RangeWords
mod ReadSoFar
