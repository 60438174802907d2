-- The parts of kind 177, a depth element and the list, and messages at their edges, with every field; no two elements of one width agree in all rows,
-- and an element's parts have four widths. The payload of RULES 14 is the reader's.
-- Assumes nothing.
use Prim.Native.Nat.{ℕ}
use mathlib.Core.Path.{◌≡◌, refl}
use mathlib.Core.List.{[], ◌∷◌}
use lib.Ieee.{binary64, of_bits}
use Rattle.bits.specs.Bits.{bit_at, part, from, unsigned_of}
use Rattle.bits.specs.Elements.{u_front, ue_after}
use Rattle.bits.specs.Out.{taken, refused}
use Rattle.bits.specs.declared.refusal.Refusal.TheVariants.{Short, Rule}
use Rattle.format.specs.Format.{zeros}
use Rattle.format.specs.Reading.{element_front, run, run_at}
use Rattle.format.specs.Syntax.{times, padded}
use Rattle.format.specs.Writing.{unfit, pen}
use Rattle.format.proofs.Worked.{Worked, row, row_at}
use Rattle.numbers.specs.Depth.{depth_bits}
use Rattle.numbers.specs.declared.depth.DepthNumber.TheVariants.{Unspecified, Number}
use Rattle.numbers.specs.declared.depth.DepthNumber.{DepthNumber}
use Rattle.kind_depth.specs.Depth.{element, absent, most, model_of, table, depth, model}
use Rattle.kind_depth.specs.declared.element.DepthValue.{DepthValue}
use Rattle.kind_depth.specs.declared.model.Model.{Model}
use Rattle.kind_depth.specs.declared.Depth.{Depth}

-- ---- the parts

-- sign, exponent, length of the mantissa less one, mantissa, and the number
abbrev value : ℕ → ℕ → ℕ → ℕ → DepthNumber → DepthValue
value s e l n x = record { da_sign_flag = s; da_exponent = e; da_mantissa_len_minus1 = l; da_mantissa = n; number = x }

-- -13, which is -(2^3 × (1 + 5/8)); 12 / 2^35, the exponent being 0; a mantissa that lacks a bit. The bits, in the order of H.274's table: sign,
-- exponent, length less one, mantissa.
--   a2 15     1 0100010 00010 101
--   00 23 00  0 0000000 00100 01100
elements :
    Worked element
    (row (0xa2 ∷ 0x15 ∷ []) (taken (value 1 34 2 5 (Number (of_bits binary64 0xc02a_0000_0000_0000))) 16)
    ∷ row (0x00 ∷ 0x23 ∷ 0x00 ∷ []) (taken (value 0 0 4 12 (Number (of_bits binary64 0x3df8_0000_0000_0000))) 18)
    ∷ row (0xa2 ∷ 0x1d ∷ []) (refused Short)
    ∷ [])
unfolding element depth_bits run_at run element_front u_front from part unsigned_of bit_at
elements = refl

abbrev no-numbers : Model
no-numbers = zeros (model 0)

-- Of type 3 a count less one, and two numbers in their order: 42 98 is 010 0001010 011.
one_list : Worked (model 3) (row (0x42 ∷ 0x98 ∷ []) (taken (model_of 2 (padded most 0 (9 ∷ 2 ∷ []))) 13) ∷ [])
unfolding times run_at run element_front u_front ue_after from part unsigned_of bit_at
one_list = refl

-- Of another type nothing is read.
no-list : Worked (model 2) (row [] (taken no-numbers 0) ∷ [])
unfolding run_at run from
no-list = refl

-- ---- messages

-- the flags of z near, z far, d min and d max; the type, the reference view, the four and the list
abbrev message : ℕ → ℕ → ℕ → ℕ → ℕ → ℕ → DepthValue → DepthValue → DepthValue → DepthValue → Model → Depth
message nearFlag farFlag minFlag maxFlag type view near far least most list =
    record {
      z_near_flag = nearFlag;
      z_far_flag = farFlag;
      d_min_flag = minFlag;
      d_max_flag = maxFlag;
      depth_representation_type = type;
      disparity_ref_view_id = view;
      z_near = near;
      z_far = far;
      d_min = least;
      d_max = most;
      count = list.count;
      depth_nonlinear_representation_model = list.numbers;
    }

-- Nothing but flags and a type: the record of zeros. Disparities with a reference view, 2 and a zero whose sign is 1; type 2 has no list. Exponent
-- 127 is unspecified, and its mantissa of 3 bits is read. A least disparity of -1.5 alone. The bits, in the order of 8.22.1: the four flags, type,
-- reference view, and of each element sign, exponent, length less one, mantissa.
--   08                 0 0 0 0 1
--   36 20 80 08 00 00  0 0 1 1 011 0001000  0 0100000 00000 0  1 0000000 00000 0
--   4f f8 a8           0 1 0 0 1            1 1111111 00010 101
--   2e 7c 10           0 0 1 0 1 1          1 0011111 00000 1
numbers-read :
    Worked depth
    (row (0x08 ∷ []) (taken (zeros table) 5)
    ∷ row (0x36 ∷ 0x20 ∷ 0x80 ∷ 0x08 ∷ 0x00 ∷ 0x00 ∷ [])
    (taken
    (message 0 0 1 1 2 7
    absent absent (value 0 32 0 0 (Number (of_bits binary64 0x4000_0000_0000_0000))) (value 1 0 0 0 (Number (of_bits binary64 0)))
    no-numbers)
    42)
    ∷ row (0x4f ∷ 0xf8 ∷ 0xa8 ∷ []) (taken (message 0 1 0 0 0 0 absent (value 1 127 2 5 Unspecified) absent absent no-numbers) 21)
    ∷ row (0x2e ∷ 0x7c ∷ 0x10 ∷ [])
    (taken (message 0 0 1 0 0 0 absent absent (value 1 31 0 1 (Number (of_bits binary64 0xbff8_0000_0000_0000))) absent no-numbers) 20)
    ∷ [])
unfolding depth element depth_bits times run_at run element_front u_front ue_after from part unsigned_of bit_at
numbers-read = refl

-- Every element there is: type 3, reference view 5; 6, 192, -13 and 44, of mantissas of one to four bits; a list of 9 and 2. The bits, element by
-- element:
--   1 1 1 1 00100 00110
--   0 0100001 00000 1  0 0100110 00001 10  1 0100010 00010 101  0 0100100 00011 0110
--   010 0001010 011
every_element :
    Worked depth
    (row (0xf2 ∷ 0x18 ∷ 0x84 ∷ 0x12 ∷ 0x60 ∷ 0xd4 ∷ 0x42 ∷ 0xa4 ∷ 0x83 ∷ 0x64 ∷ 0x29 ∷ 0x80 ∷ [])
    (taken
    (message 1 1 1 1 3 5
    (value 0 33 0 1 (Number (of_bits binary64 0x4018_0000_0000_0000)))
    (value 0 38 1 2 (Number (of_bits binary64 0x4068_0000_0000_0000)))
    (value 1 34 2 5 (Number (of_bits binary64 0xc02a_0000_0000_0000)))
    (value 0 36 3 6 (Number (of_bits binary64 0x4046_0000_0000_0000)))
    (model_of 2 (padded most 0 (9 ∷ 2 ∷ []))))
    89)
    ∷ [])
unfolding depth element depth_bits times run_at run element_front u_front ue_after from part unsigned_of bit_at
every_element = refl

-- Type 3: a list of 5 and 65,535; a listed 65,536 breaks a rule. Of types 15 is fine, and 16 breaks a rule though nothing follows it. A count
-- less one of 62 is fine, and the list lacks; 63 breaks a rule though nothing follows it.
lists :
    Worked depth
    (row (0x02 ∷ 0x23 ∷ 0x00 ∷ 0x00 ∷ 0x40 ∷ 0x00 ∷ 0x00 ∷ [])
    (taken (message 0 0 0 0 3 0 absent absent absent absent (model_of 2 (padded most 0 (5 ∷ 65535 ∷ [])))) 50)
    ∷ row (0x02 ∷ 0x40 ∷ 0x00 ∷ 0x20 ∷ 0x00 ∷ 0x20 ∷ []) (refused Rule)
    ∷ row_at 3 (0x00 ∷ 0x10 ∷ []) (taken (message 0 0 0 0 15 0 absent absent absent absent no-numbers) 16)
    ∷ row_at 3 (0x00 ∷ 0x11 ∷ []) (refused Rule)
    ∷ row_at 4 (0x00 ∷ 0x20 ∷ 0x3f ∷ []) (refused Short)
    ∷ row_at 2 (0x00 ∷ 0x80 ∷ 0x40 ∷ []) (refused Rule)
    ∷ [])
unfolding depth element depth_bits times run_at run element_front u_front ue_after from part unsigned_of bit_at
lists = refl

-- A message of type 3 has a list of one number at least, and of another type no list: neither of these records can be written.
not_written : (pen depth (message 0 0 0 0 3 0 absent absent absent absent no-numbers) ≡ unfit) × (pen depth (message 0 0 0 0 2 0 absent absent absent absent (model_of 1 (padded most 0 []))) ≡ unfit)
unfolding depth element pen
not_written = (refl, refl)
