-- The handles of calls are of their kinds, from round to round.
use Rattle.std.proofs.Common.{◌≡◌, List, [], ◌∷◌, ◌++◌, map, fold, sym, ap, subst, ◌∙◌, append-nil, append_assoc}
use Rattle.std.specs.Prelude.{All, option_map, filter_map, slice_get}
use Rattle.std.proofs.lemmas.List.{map-append}
use Rattle.std.proofs.lemmas.List.Elements.{All-head, All-tail, All-cons, All-nil}
use Rattle.std.proofs.lemmas.Option.{same_Some, slice_get-map}
use Rattle.metrics_core.specs.declared.kinds.MetricKind.{MetricKind}
use Rattle.metrics_core.specs.declared.kinds.SeriesId.{SeriesId}
use Rattle.drive_script.specs.Script.{CallLine, RoundText, SetupLine, Register, Describe}
use Rattle.drive_script.specs.Texts.{call_line_of}
use Rattle.drive_script.specs.Valid.{Registration, registration_of, registered_in, HasHandle}
use Rattle.drive_script.specs.declared.script.CallLine.{CallLine as CallValue}
use Rattle.script_player.specs.Flushes.{FlushPlay, after_registers, register_step}
use Rattle.script_player.specs.Play.{PlayState, setup_step, after_setup}
use Rattle.script_player.specs.Fitting.{FitsHandle, CallsFit, kinds_of}

abbrev kinds : List Registration → List MetricKind
kinds = map (λ (r : Registration). r.kind)

-- the setup gives each register line a handle of its kind
handles_given : (p : PlayState) (setup : List SetupLine) → kinds_of (fold setup_step p setup).handles ≡ kinds_of p.handles ++ kinds (filter_map registration_of setup)
handles_given p [] = sym (append-nil (kinds_of p.handles))
handles_given p (Describe kind name unit text ∷ setup) = handles_given (setup_step p (Describe kind name unit text)) setup
handles_given p (Register kind key ∷ setup) =
    handles_given (setup_step p (Register kind key)) setup
    ∙ ap (λ ks. ks ++ kinds (filter_map registration_of setup)) (map-append (λ (id : SeriesId). id.kind) p.handles _)
    ∙ append_assoc (kinds_of p.handles) (kind ∷ []) (kinds (filter_map registration_of setup))

after_fit : (p : PlayState) (round : RoundText) (earlier : List Registration) → kinds_of p.handles ≡ kinds earlier → kinds_of (after_setup p round).handles ≡ kinds (earlier ++ registered_in round)
after_fit p round earlier same =
    handles_given p round.setup ∙ ap (λ ks. ks ++ kinds (registered_in round)) same ∙ sym (map-append (λ (r : Registration). r.kind) earlier (registered_in round))

one_fits : (handles : List SeriesId) (earlier : List Registration) (call : CallLine) → kinds_of handles ≡ kinds earlier → HasHandle earlier call → FitsHandle handles call
one_fits handles earlier call same has id found =
    same_Some _ _
    (sym (slice_get-map (λ (i : SeriesId). i.kind) handles call.handle ∙ ap (option_map (λ (i : SeriesId). i.kind)) found)
    ∙ ap (λ ks. slice_get ks call.handle) same
    ∙ slice_get-map (λ (r : Registration). r.kind) earlier call.handle ∙ ap (option_map (λ (r : Registration). r.kind)) has.1)

each_fits : (handles : List SeriesId) (earlier : List Registration) (calls : List CallValue) → kinds_of handles ≡ kinds earlier → All (HasHandle earlier) (map call_line_of calls) → All (λ call. FitsHandle handles (call_line_of call)) calls
each_fits handles earlier [] same has = All-nil _
each_fits handles earlier (call ∷ calls) same has =
    All-cons (λ (c : CallValue). FitsHandle handles (call_line_of c)) call calls
    (one_fits handles earlier (call_line_of call) same (All-head (HasHandle earlier) (call_line_of call) (map call_line_of calls) has))
    (each_fits handles earlier calls same (All-tail (HasHandle earlier) (call_line_of call) (map call_line_of calls) has))

-- the calls of the next round fit the handles after its setup, and the rounds behind it fit the handles then
pub calls_fit : (p : PlayState) (round : RoundText) (rest : List RoundText) (calls : List CallValue) → round.calls ≡ map call_line_of calls → CallsFit p.handles (round ∷ rest) → All (λ call. FitsHandle (after_setup p round).handles (call_line_of call)) calls
calls_fit p round rest calls are fit =
    each_fits (after_setup p round).handles (fit.0 ++ registered_in round) calls (after_fit p round fit.0 fit.1) (subst (All (HasHandle (fit.0 ++ registered_in round))) are fit.2.0)

pub first_fits : (handles : List SeriesId) (round : RoundText) (rest : List RoundText) → CallsFit handles (round ∷ rest) → CallsFit handles (round ∷ [])
first_fits handles round rest fit = (fit.0, fit.1, (fit.2.0, tt))

pub rest_fits : (p : PlayState) (round : RoundText) (rest : List RoundText) → CallsFit p.handles (round ∷ rest) → CallsFit (after_setup p round).handles rest
rest_fits p round rest fit = (fit.0 ++ registered_in round, after_fit p round fit.0 fit.1, fit.2.1)

-- ---- the same of the handles of the flushes

lines_given : (p : FlushPlay) (setup : List SetupLine) → kinds_of (fold register_step p setup).handles ≡ kinds_of p.handles ++ kinds (filter_map registration_of setup)
lines_given p [] = sym (append-nil (kinds_of p.handles))
lines_given p (Describe kind name unit text ∷ setup) = lines_given (register_step p (Describe kind name unit text)) setup
lines_given p (Register kind key ∷ setup) =
    lines_given (register_step p (Register kind key)) setup
    ∙ ap (λ ks. ks ++ kinds (filter_map registration_of setup)) (map-append (λ (id : SeriesId). id.kind) p.handles _)
    ∙ append_assoc (kinds_of p.handles) (kind ∷ []) (kinds (filter_map registration_of setup))

lines_after_fit : (p : FlushPlay) (round : RoundText) (earlier : List Registration) → kinds_of p.handles ≡ kinds earlier → kinds_of (after_registers p round).handles ≡ kinds (earlier ++ registered_in round)
lines_after_fit p round earlier same =
    lines_given p round.setup ∙ ap (λ ks. ks ++ kinds (registered_in round)) same ∙ sym (map-append (λ (r : Registration). r.kind) earlier (registered_in round))

pub lines_calls_fit : (p : FlushPlay) (round : RoundText) (rest : List RoundText) (calls : List CallValue) → round.calls ≡ map call_line_of calls → CallsFit p.handles (round ∷ rest)
    → All (λ call. FitsHandle (after_registers p round).handles (call_line_of call)) calls
lines_calls_fit p round rest calls are fit =
    each_fits (after_registers p round).handles (fit.0 ++ registered_in round) calls (lines_after_fit p round fit.0 fit.1) (subst (All (HasHandle (fit.0 ++ registered_in round))) are fit.2.0)

pub lines_rest_fits : (p : FlushPlay) (round : RoundText) (rest : List RoundText) → CallsFit p.handles (round ∷ rest) → CallsFit (after_registers p round).handles rest
lines_rest_fits p round rest fit = (fit.0 ++ registered_in round, lines_after_fit p round fit.0 fit.1, fit.2.1)
