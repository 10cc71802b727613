mod KindSumReads
