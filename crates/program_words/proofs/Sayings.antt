-- What is said of a fault and of a run is the line of its status.
use Rattle.std.proofs.Common.{◌≡◌, ℕ, List, [], ◌∷◌, ◌++◌, sym, ap, ◌∙◌, subst, append_assoc, append-nil}
use Rattle.std.specs.Prelude.{Option, IfSome, codes, decimal}
use Rattle.metrics_core.specs.Characters.{line, newline}
use Rattle.dsd_addresses.specs.Faults.{limit_fault_text, limit_text}
use Rattle.dsd_addresses.specs.declared.faults.LimitFault.{LimitFault}
use Rattle.drive_script.specs.Faults.{fault_text, setting_text}
use Rattle.drive_script.specs.declared.faults.SettingFault.{SettingFault}
use Rattle.drive_script.specs.declared.faults.DriveFault.{DriveFault}
use Rattle.drive_script.specs.declared.faults.DriveFault.TheVariants as faults
use Rattle.dsd_addresses.specs.Remotes.{RemoteText}
use Rattle.script_player.specs.Sent.{LinkTold}
use Rattle.program_words.specs.Answers.{IsSaidText, IsLineOf, HasCause, fault_status, bad_script, setting_refused, too_long, read_failed, write_failed, no_memory}

-- a text that is the line of a fault, said of that fault
pub said_of : (Failed : Type 0) (said said' : Option (List ℕ)) (fault is : DriveFault) (text : List ℕ) → fault ≡ is → text ≡ line (fault_text is)
    → IsSaidText Failed said said' text → IsSaidText Failed said said' (line (fault_text fault))
said_of Failed said said' fault is text same spelled h =
    let P : List ℕ → Type 0 = λ t. IsSaidText Failed said said' t in
    subst P (spelled ∙ sym (ap (λ f. line (fault_text f)) same)) h

-- the same of a refused setting
pub setting_said : (Failed : Type 0) (said said' : Option (List ℕ)) (fault is : SettingFault) (text : List ℕ) → fault ≡ is → text ≡ line (setting_text is)
    → IsSaidText Failed said said' text → IsSaidText Failed said said' (line (setting_text fault))
setting_said Failed said said' fault is text same spelled h =
    let P : List ℕ → Type 0 = λ t. IsSaidText Failed said said' t in
    subst P (spelled ∙ sym (ap (λ f. line (setting_text f)) same)) h

-- the line of a bad script, from its pieces
pub script_line : (digits : List ℕ) (l : ℕ) → digits ≡ decimal l → codes "script: line " ++ (digits ++ newline ∷ []) ≡ line (fault_text (faults.Script l))
script_line digits l e = ap (λ d. codes "script: line " ++ (d ++ newline ∷ [])) e ∙ sym (append_assoc (codes "script: line ") (decimal l) (newline ∷ []))

-- a payload limit that is refused, from its pieces
pub length_text : (number : List ℕ) (limit : ℕ) (behind : List ℕ) → number ≡ decimal limit
    → codes "invalid configuration: maximum payload length (" ++ (number ++ (behind ++ [])) ≡ codes "invalid configuration: " ++ limit_text limit behind
length_text number limit behind e = (λ i. codes "invalid configuration: maximum payload length (" ++ (e i ++ append-nil behind i))

pub limit_line : (limit : ℕ) (behind : List ℕ) → codes "invalid configuration: " ++ limit_text limit (behind ++ newline ∷ []) ≡ line (codes "invalid configuration: " ++ limit_text limit behind)
limit_line limit behind = ap (λ t. codes "invalid configuration: maximum payload length (" ++ t) (sym (append_assoc (decimal limit) behind (newline ∷ [])))

-- the line of a refused limit, from what was said of it
pub limit_said : (Failed : Type 0) (said said' : Option (List ℕ)) (fault : LimitFault) (limit : ℕ) (behind : List ℕ) → limit_fault_text fault ≡ limit_text limit behind
    → IsSaidText Failed said said' (codes "invalid configuration: " ++ limit_text limit (behind ++ newline ∷ [])) → IsSaidText Failed said said' (line (codes "invalid configuration: " ++ limit_fault_text fault))
limit_said Failed said said' fault limit behind same h =
    let P : List ℕ → Type 0 = λ t. IsSaidText Failed said said' t in
    subst P (limit_line limit behind ∙ sym (ap (λ t. line (codes "invalid configuration: " ++ t)) same)) h

-- the line of a fault is that of its status
pub fault_line : (to : RemoteText) (left : Option (List ℕ)) (told tells : LinkTold) (S K : Type 0) (fault : DriveFault) → IfSome left (λ bytes. HasCause to bytes S K fault)
    → IsLineOf to left told tells (fault_status fault) (line (fault_text fault))
fault_line to left told tells S K (faults.Script l) cause = bad_script l cause
fault_line to left told tells S K (faults.Setting fault) cause = setting_refused fault cause
fault_line to left told tells S K faults.TooLong cause = too_long
fault_line to left told tells S K faults.ReadFault cause = read_failed
fault_line to left told tells S K faults.WriteFault cause = write_failed
fault_line to left told tells S K faults.Memory cause = no_memory
