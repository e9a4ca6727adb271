mod WholeWalks
