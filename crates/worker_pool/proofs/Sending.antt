-- A closure of seven captures may go to another thread.
use mir.Syntax.{Sym, w32}
use denote.RattleType.{RattleType}
use denote.Plain.{UInt}
use denote.Struct.Declared.{shape}
use denote.Struct.Struct.{Struct}
use denote.Struct.Tuple.{TupleAt, type_at}
use denote.Param.Send.{IsSend, recorded_send, sendable, struct_send}
use Rattle.std.proofs.Common.{[], ◌∷◌}

-- it may where each of the captures may
pub closure_send : (ν : Sym) (A B C D E F G : RattleType) → IsSend A → IsSend B → IsSend C → IsSend D → IsSend E → IsSend F → IsSend G
    → IsSend (TupleAt ν (A ∷ B ∷ C ∷ D ∷ E ∷ F ∷ G ∷ []))
closure_send ν A B C D E F G a b c d e f g =
    let T = type_at ν (A ∷ B ∷ C ∷ D ∷ E ∷ F ∷ G ∷ []) in
    recorded_send (Struct (shape T)) T.D T.to T.to_one (struct_send (shape T) (a, (b, (c, (d, (e, (f, (g, tt))))))))

-- a number of 32 bits
pub number_send : IsSend (UInt w32)
number_send = search sendable

-- the first worker's closure's name, by its characters
abbrev pub name : Sym
name =
    119 ∷ 111 ∷ 114 ∷ 107 ∷ 101 ∷ 114 ∷ 95 ∷ 112 ∷ 111 ∷ 111 ∷ 108 ∷ 58 ∷ 58 ∷ 116 ∷ 101 ∷ 97 ∷ 109 ∷ 58 ∷ 58 ∷ 102 ∷ 110 ∷ 58 ∷ 58 ∷
    119 ∷ 111 ∷ 114 ∷ 107 ∷ 95 ∷ 116 ∷ 111 ∷ 103 ∷ 101 ∷ 116 ∷ 104 ∷ 101 ∷ 114 ∷ 58 ∷ 58 ∷ 111 ∷ 110 ∷ 101 ∷ 43 ∷ 83 ∷ 101 ∷ 108 ∷ 102 ∷ []
