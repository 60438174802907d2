-- A pair of payloads of kind 150: 67 08 08, and the same message with other reserved bits, another reserved guard band code and a tail.
-- Assumes nothing.
use Prim.Native.Nat.{ℕ}
use native.Mathlib.Omega.{arith}
use mathlib.Core.Path.{◌≡◌, refl}
use mathlib.Core.Logic.{inl, inr}
use mathlib.Core.Bool.{Bool, true, false}
use mathlib.Core.List.{List, [], ◌∷◌, ◌++◌}
use Rattle.bits.specs.Bits.{bit_at, part, from, unsigned_of}
use Rattle.bits.specs.Refusals.{fine}
use Rattle.bits.specs.Coding.{CodedShape}
use Rattle.format.specs.Format.{Element, handed, verdict}
use Rattle.format.specs.Syntax.{any}
use Rattle.format.specs.Coded.{CodedThen, Coded}
use Rattle.format.specs.Varied.{Both, same, Variation}
use Rattle.format.proofs.Alike.{ignored-vary, guards-vary}
use Rattle.kind_equirectangular.specs.Equirectangular.{equirectangular}
use Rattle.kind_equirectangular.specs.declared.Equirectangular.{Equirectangular}
use Rattle.answers.specs.Listed.{form, named}
use Rattle.answers.specs.declared.kind.Kind.TheVariants as kinds
use Rattle.isolation.specs.Runs.{feeds}
use Rattle.isolation.specs.Pairs.{Pair, varied}

-- the guard band's widths: 8 and 8
abbrev eight : List Bool
eight = false ∷ false ∷ false ∷ false ∷ true ∷ false ∷ false ∷ false ∷ []

abbrev widths : List Bool
widths = eight ++ eight

-- cancel 0, persistence 1, guard flag 1; then reserved bits and the guard type
abbrev flags : List Bool → List Bool
flags rest = false ∷ true ∷ true ∷ rest

-- .. 00 and 7, and 11 and 4
abbrev message : List Bool
message = flags (false ∷ false ∷ true ∷ true ∷ true ∷ widths)

abbrev message' : List Bool
message' = flags (true ∷ true ∷ true ∷ false ∷ false ∷ widths)

abbrev value : Equirectangular
value =
    record {
      erp_cancel_flag = 0;
      erp_persistence_flag = 1;
      erp_guard_band_flag = 1;
      erp_guard_band_type = 0;
      erp_left_guard_band_width = 8;
      erp_right_guard_band_width = 8;
    }

-- one element, and what follows it
coded : {e : Element} {Rest : ℕ → List Bool → Type 0} (c : ℕ) (own rest : List Bool)
    → CodedShape e.shape own c → verdict e c ≡ fine → Rest (handed e c) rest → CodedThen e Rest (own ++ rest)
coded c own rest d v f = record { code = c; own = own; rest = rest; split = refl; element = d; judged = v; follows = f }

is-message : Coded (form kinds.Equirectangular).table message value
unfolding equirectangular unsigned_of
is-message =
    coded 0 (false ∷ []) _ (record { long = refl; says = refl }) refl
    (coded 1 (true ∷ []) _ (record { long = refl; says = refl }) refl
    (coded 1 (true ∷ []) _ (record { long = refl; says = refl }) refl
    (coded 0 (false ∷ false ∷ []) _ (record { long = refl; says = refl }) refl
    (coded 7 (true ∷ true ∷ true ∷ []) _ (record { long = refl; says = refl }) refl
    (coded 8 eight eight (record { long = refl; says = refl }) refl
    (coded 8 eight [] (record { long = refl; says = refl }) refl (refl, refl)))))))

-- one element in both
both : {e : Element} {Own : List Bool → List Bool → ℕ → Type 0} {Rest : ℕ → List Bool → List Bool → Type 0} (c : ℕ) (own own' rest rest' : List Bool)
    → CodedShape e.shape own c → Own own own' c → Rest (handed e c) rest rest' → Both e Own Rest (own ++ rest) (own' ++ rest')
both c own own' rest rest' d a f =
    record { code = c; own = own; rest = rest; own' = own'; rest' = rest'; split = refl; split' = refl; element = d; allowed = a; follows = f }

varies : Variation (form kinds.Equirectangular).table message message'
unfolding equirectangular unsigned_of
varies =
    both 0 (false ∷ []) (false ∷ []) _ _ (record { long = refl; says = refl }) (same refl)
    (both 1 (true ∷ []) (true ∷ []) _ _ (record { long = refl; says = refl }) (same refl)
    (both 1 (true ∷ []) (true ∷ []) _ _ (record { long = refl; says = refl }) (same refl)
    (both 0 (false ∷ false ∷ []) (true ∷ true ∷ []) _ _ (record { long = refl; says = refl }) (ignored-vary 2 _ _ _ refl)
    (both 7 (true ∷ true ∷ true ∷ []) (true ∷ false ∷ false ∷ []) _ _ (record { long = refl; says = refl }) (guards-vary any _ _ _ refl (omega arith) (omega arith))
    (both 8 eight eight eight eight (record { long = refl; says = refl }) (same refl)
    (both 8 eight eight [] [] (record { long = refl; says = refl }) (same refl) (refl, refl)))))))

abbrev payload : List ℕ
payload = 0x67 ∷ 8 ∷ 8 ∷ []

-- with a tail of two extension bits, and a byte past the size
abbrev payload' : List ℕ
payload' = 0x7c ∷ 8 ∷ 8 ∷ 0xa0 ∷ 0xff ∷ []

abbrev rest' : List Bool
rest' = true ∷ false ∷ true ∷ false ∷ false ∷ false ∷ false ∷ false ∷ []

pair : Pair (feeds 0 150 3 payload) (feeds 0 150 4 payload')
unfolding from part bit_at named
pair =
    varied 0 150 3 payload 4 payload'
    (record {
      k = kinds.Equirectangular;
      listed = refl;
      tailed = refl;
      first =
          record {
            limit = omega arith;
            long = omega arith;
            value = value;
            extension = 0;
            holds = record { message = message; rest = []; split = refl; coded = is-message; follows = inl (refl, refl) };
          };
      limit' = omega arith;
      long' = omega arith;
      message' = message';
      rest' = rest';
      split' = refl;
      varies = varies;
      extension' = 2;
      follows' = inr (record { extension = true ∷ false ∷ []; zeros = 5; few = omega arith; split = refl; count = refl });
    })
