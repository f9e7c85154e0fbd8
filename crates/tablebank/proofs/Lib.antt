mod Makings
