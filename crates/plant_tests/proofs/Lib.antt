mod QuietMoves
