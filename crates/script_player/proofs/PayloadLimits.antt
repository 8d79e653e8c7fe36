-- A payload limit that is not refused is one that a writer takes.
use Rattle.std.proofs.Common.{◌≡◌, ℕ, ◌≤◌, Bool, true, false, cond, arith, refl}
use Rattle.std.specs.Option.{option_or}
use Rattle.std.specs.Prelude.{◌&&◌, nat_lt, Option, Some, None, option_map, unwrap_or}
use Rattle.std.proofs.lemmas.Bool.{ltb-false}
use Rattle.dsd_addresses.specs.Limits.{fault_of_limit, is_udp}
use Rattle.dsd_addresses.specs.Remotes.{RemoteText, Udp, Unix, Unixgram, default_limit}
use Rattle.dsd_addresses.specs.declared.faults.LimitFault.TheVariants as limits
use Rattle.drive_script.specs.Script.{SettingsText}
use Rattle.drive_script.specs.Settings.{Refusal, Limit, Empty, Native, refused_limit, refused_native, refused_setting, refused_window, window_settings}
use Rattle.script_player.specs.Flushes.{payload_limit}

abbrev IsLimit : ℕ → Type 0
IsLimit limit = (6 ≤ limit) × (limit ≤ 4294967295)

second_none : (a b : Option Refusal) → option_or a b ≡ None → b ≡ None
second_none None b e = e
second_none (Some a) b e = absurd cc

else_none : (t : Bool) (a : Refusal) (b : Option Refusal) → cond t (Some a) b ≡ None → b ≡ None
else_none true a b e = absurd cc
else_none false a b e = e

-- a limit with no fault is within the bounds of all addresses
no_fault : (limit : ℕ) (to : RemoteText) → option_map Limit (fault_of_limit limit to) ≡ None → IsLimit limit
no_fault limit to = by (nat_lt limit 6) refl (is_udp to && nat_lt 65527 limit) (nat_lt 4294967295 limit) refl
  where
    by : (low : Bool) → nat_lt limit 6 ≡ low → (udp high : Bool) → nat_lt 4294967295 limit ≡ high
        → option_map Limit (cond low (Some (limits.Low limit)) (cond udp (Some (limits.Udp limit)) (cond high (Some (limits.Bound limit)) None))) ≡ None → IsLimit limit
    by true is udp high also e = absurd cc
    by false is true high also e = absurd cc
    by false is false true also e = absurd cc
    by false is false false also e = (ltb-false limit 6 is, ltb-false 4294967295 limit also)

within : (limit : Option ℕ) (to : RemoteText) → refused_limit limit to ≡ None → IsLimit (unwrap_or limit (default_limit to))
within (Some limit) to e = no_fault limit to e
within None (Udp address) e = (omega arith, omega arith)
within None (Unix path) e = (omega arith, omega arith)
within None (Unixgram path) e = (omega arith, omega arith)

pub limit_within : (settings : SettingsText) (to : RemoteText) → refused_setting settings to ≡ None → IsLimit (payload_limit settings to)
limit_within settings to allowed =
    within settings.dsd_limit to
    (second_none (refused_window (window_settings settings.summary)) (refused_limit settings.dsd_limit to)
    (second_none (option_map Native (refused_native settings.native_for)) _ (else_none _ Empty _ allowed)))
