-- Kind 177: H.274 8.22.1, depth_representation_info( payloadSize ), with its element, printed as 8.2.2.1.1.
use Rattle.std.specs.Prelude.{ℕ, ◌+◌, ◌-◌, ◌&&◌, ◌||◌, List, replicate, leb, eqb}
use Rattle.format.specs.Format.{Format, done, asks, ◌>>=◌, ◌of◌, all_zero}
use Rattle.format.specs.Syntax.{u, ue, ◌at◌, ◌must◌, at_most, when_else, when, each, listed}
use Rattle.numbers.specs.Depth.{depth_number}
use Rattle.numbers.specs.declared.depth.DepthNumber.TheVariants.{Absent}
use Rattle.kind_depth.specs.declared.element.DepthValue.{DepthValue}
use Rattle.kind_depth.specs.declared.model.Model.{Model}
use Rattle.kind_depth.specs.declared.Depth.{Depth}

-- ---- depth_rep_info_element( OutSign, OutExp, OutMantissa, OutManLen )

abbrev pub element_table : Format DepthValue DepthValue
element_table = do
  da_sign_flag ← u 1 at (λ r. r.da_sign_flag)
  da_exponent ← u 7 at (λ r. r.da_exponent)
  da_mantissa_len_minus1 ← u 5 at (λ r. r.da_mantissa_len_minus1)
  da_mantissa ← u (da_mantissa_len_minus1 + 1) at (λ r. r.da_mantissa)
  done
      (record {
        da_sign_flag = da_sign_flag;
        da_exponent = da_exponent;
        da_mantissa_len_minus1 = da_mantissa_len_minus1;
        da_mantissa = da_mantissa;
        number = depth_number da_sign_flag da_exponent da_mantissa_len_minus1 da_mantissa;
      })

unfoldable pub element : Format DepthValue DepthValue
element = element_table

abbrev pub absent : DepthValue
absent = record { da_sign_flag = 0; da_exponent = 0; da_mantissa_len_minus1 = 0; da_mantissa = 0; number = Absent }

-- an element that is there where its flag is 1; a number is absent exactly where its flag is 0: RULES 5
abbrev pub element_if : ℕ → Format DepthValue DepthValue
element_if flag = when_else (eqb flag 1) element (all_zero element) absent

-- ---- depth_representation_info( payloadSize )

-- the most numbers that the list may have
abbrev pub most : ℕ
most = 63

abbrev pub listed_number : Format ℕ ℕ
listed_number = ue must at_most 65535 at (λ x. x)

abbrev pub model_of : ℕ → List ℕ → Model
model_of count numbers = record { count = count; numbers = numbers }

-- the reference view, which is there where a disparity is
abbrev pub ref_view : ℕ → ℕ → Format Depth ℕ
ref_view d_min_flag d_max_flag = when (eqb d_min_flag 1 || eqb d_max_flag 1) (ue at (λ r. r.disparity_ref_view_id))

-- Only a message of type 3 has a list, which is of one number at least; every entry past the count is 0: RULES 3.3.
abbrev pub model : ℕ → Format Depth Model
model depth_representation_type =
    when_else (eqb depth_representation_type 3)
    (asks (λ r. leb 1 r.count) (do
      depth_nonlinear_representation_num_minus1 ← ue must at_most (most - 1) at (λ r. r.count - 1)
      depth_nonlinear_representation_model ← listed most (depth_nonlinear_representation_num_minus1 + 1) listed_number of (λ r. r.depth_nonlinear_representation_model)
      done (model_of (depth_nonlinear_representation_num_minus1 + 1) depth_nonlinear_representation_model)))
    (λ r. eqb r.count 0 && each (λ x. eqb x 0) r.depth_nonlinear_representation_model) (model_of 0 (replicate most 0))

abbrev pub table : Format Depth Depth
table = do
  z_near_flag ← u 1 at (λ r. r.z_near_flag)
  z_far_flag ← u 1 at (λ r. r.z_far_flag)
  d_min_flag ← u 1 at (λ r. r.d_min_flag)
  d_max_flag ← u 1 at (λ r. r.d_max_flag)
  depth_representation_type ← ue must at_most 15 at (λ r. r.depth_representation_type)
  disparity_ref_view_id ← ref_view d_min_flag d_max_flag
  z_near ← element_if z_near_flag of (λ r. r.z_near)
  z_far ← element_if z_far_flag of (λ r. r.z_far)
  d_min ← element_if d_min_flag of (λ r. r.d_min)
  d_max ← element_if d_max_flag of (λ r. r.d_max)
  list ← model depth_representation_type
  done
      (record {
        z_near_flag = z_near_flag;
        z_far_flag = z_far_flag;
        d_min_flag = d_min_flag;
        d_max_flag = d_max_flag;
        depth_representation_type = depth_representation_type;
        disparity_ref_view_id = disparity_ref_view_id;
        z_near = z_near;
        z_far = z_far;
        d_min = d_min;
        d_max = d_max;
        count = list.count;
        depth_nonlinear_representation_model = list.numbers;
      })

-- the table under a name that stays shut: callers go by laws
unfoldable pub depth : Format Depth Depth
depth = table
