use Rattle.spelling.specs.Cuts.{Six}
use Rattle.spelling.specs.declared.cut.Fields.{Fields}

-- the bytes that the six fields refer to
abbrev pub seen : Fields → Six
seen f = record { kind = f.kind.now; a = f.a.now; b = f.b.now; c = f.c.now; d = f.d.now; e = f.e.now }
