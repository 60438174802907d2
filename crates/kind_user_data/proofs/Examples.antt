-- Heads of kinds 4 and 5, and payloads that end inside one.
-- Assumes nothing.
use Prim.Native.Nat.{ℕ}
use mathlib.Core.Path.{refl}
use mathlib.Core.List.{List, [], ◌∷◌}
use Rattle.bits.specs.Bits.{bit_at, part, from, unsigned_of}
use Rattle.bits.specs.Elements.{u_front}
use Rattle.bits.specs.Identifier.{bytes_of}
use Rattle.bits.specs.Out.{Out, taken, refused}
use Rattle.bits.specs.declared.refusal.Refusal.TheVariants.{Short}
use Rattle.format.specs.Reading.{element_front, run, run_at}
use Rattle.format.proofs.Worked.{Worked, row}
use Rattle.kind_user_data.specs.Registered.{registered}
use Rattle.kind_user_data.specs.Unregistered.{unregistered}
use Rattle.kind_user_data.specs.declared.registered.Registered.{Registered}

abbrev coded : ℕ → ℕ → ℕ → Out Registered
coded country extension end = taken (record { itu_t_t35_country_code = country; itu_t_t35_country_code_extension_byte = extension }) end

-- Kind 4, byte by byte in the order of 8.3.1. B5, with an empty rest, and with one that is no matter of the head; 255 has an extension byte, and 254
-- has none; it lacks; nothing.
registered-heads :
    Worked registered
    (row (0xb5 ∷ []) (coded 181 0 8)
    ∷ row (0xb5 ∷ 0xff ∷ 0x80 ∷ 0x00 ∷ []) (coded 181 0 8)
    ∷ row (0xff ∷ 0x01 ∷ []) (coded 255 1 16)
    ∷ row (0xfe ∷ 0x01 ∷ []) (coded 254 0 8)
    ∷ row (0xff ∷ []) (refused Short)
    ∷ row [] (refused Short)
    ∷ [])
unfolding registered run_at run element_front u_front from part unsigned_of bit_at
registered-heads = refl

abbrev bytes-before : List ℕ → List ℕ
bytes-before rest = 0 ∷ 1 ∷ 2 ∷ 3 ∷ 4 ∷ 5 ∷ 6 ∷ 7 ∷ 8 ∷ 9 ∷ 10 ∷ 11 ∷ 12 ∷ 13 ∷ 14 ∷ rest

-- Kind 5. One element of 128 bits, its bytes as they stand: with a byte less there is none of it.
unregistered-heads :
    Worked unregistered
    (row (bytes-before (15 ∷ [])) (taken (record { uuid_iso_iec_11578 = bytes-before (15 ∷ []) }) 128) ∷ row (bytes-before []) (refused Short) ∷ [])
unfolding unregistered run_at run element_front u_front from part unsigned_of bit_at bytes_of
unregistered-heads = refl
