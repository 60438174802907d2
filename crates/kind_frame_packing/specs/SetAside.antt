-- Which messages are set aside: RULES 9.
use Rattle.std.specs.Prelude.{ℕ, ◌^◌, Bool, not, ◌&&◌, ◌||◌, leb, ltb, eqb}
use Rattle.kind_frame_packing.specs.declared.FramePacking.{FramePacking}

-- in 256..511 or at least 2 ^ 31
unfoldable pub reserved_id : ℕ → Bool
reserved_id id = leb 256 id && leb id 511 || leb (2 ^ 31) id

-- other than 3, 4, 5
unfoldable pub reserved_type : ℕ → Bool
reserved_type t = not (eqb t 3 || eqb t 4 || eqb t 5)

-- above 2
unfoldable pub reserved_interpretation : ℕ → Bool
reserved_interpretation n = ltb 2 n

unfoldable pub set_aside : FramePacking → Bool
set_aside p =
    reserved_id p.fp_arrangement_id
    || (eqb p.fp_arrangement_cancel_flag 0 && (reserved_type p.layout.fp_arrangement_type || reserved_interpretation p.layout.fp_content_interpretation_type))
