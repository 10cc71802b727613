mod SectionReads
