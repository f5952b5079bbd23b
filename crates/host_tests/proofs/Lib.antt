mod RanAlone
