mod SimpleReads
