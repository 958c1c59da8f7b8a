mod Pieces
mod Ends
