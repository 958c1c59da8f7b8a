pub mod ShortPieces
