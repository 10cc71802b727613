mod SectionCodes
