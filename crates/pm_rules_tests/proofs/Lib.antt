mod WorkedTurns
