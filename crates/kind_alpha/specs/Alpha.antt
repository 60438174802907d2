-- Kind 165: H.274 8.23.1, alpha_channel_info( payloadSize ).
use Rattle.std.specs.Prelude.{◌+◌, eqb}
use Rattle.format.specs.Format.{Format, done, ◌>>=◌}
use Rattle.format.specs.Syntax.{u, ◌at◌, when}
use Rattle.kind_alpha.specs.declared.Alpha.{Alpha}

abbrev pub table : Format Alpha Alpha
table = do
  alpha_channel_cancel_flag ← u 1 at (λ r. r.alpha_channel_cancel_flag)
  when (eqb alpha_channel_cancel_flag 0) (do
    alpha_channel_use_idc ← u 3 at (λ r. r.alpha_channel_use_idc)
    alpha_channel_bit_depth_minus8 ← u 3 at (λ r. r.alpha_channel_bit_depth_minus8)
    alpha_transparent_value ← u (alpha_channel_bit_depth_minus8 + 9) at (λ r. r.alpha_transparent_value)
    alpha_opaque_value ← u (alpha_channel_bit_depth_minus8 + 9) at (λ r. r.alpha_opaque_value)
    alpha_channel_incr_flag ← u 1 at (λ r. r.alpha_channel_incr_flag)
    alpha_channel_clip_flag ← u 1 at (λ r. r.alpha_channel_clip_flag)
    alpha_channel_clip_type_flag ← when (eqb alpha_channel_clip_flag 1) (u 1 at (λ r. r.alpha_channel_clip_type_flag))
    done
        (record {
          alpha_channel_cancel_flag = alpha_channel_cancel_flag;
          alpha_channel_use_idc = alpha_channel_use_idc;
          alpha_channel_bit_depth_minus8 = alpha_channel_bit_depth_minus8;
          alpha_transparent_value = alpha_transparent_value;
          alpha_opaque_value = alpha_opaque_value;
          alpha_channel_incr_flag = alpha_channel_incr_flag;
          alpha_channel_clip_flag = alpha_channel_clip_flag;
          alpha_channel_clip_type_flag = alpha_channel_clip_type_flag;
        }))

-- the table under a name that stays shut: callers go by laws
unfoldable pub alpha : Format Alpha Alpha
alpha = table
