-- What was sent by a link that was aimed before.
use Rattle.std.proofs.Common.{◌≡◌, ℕ, ◌≤◌, List, Option, subst, arith}
use Rattle.dsd_exporter.specs.Links.{SentText}
use Rattle.dsd_exporter.specs.declared.sending.FlushReport.{FlushReport}
use Rattle.dsd_forwarder.specs.Forwarding.{ForwarderText, SendsState}

pub sends_from : (moment : ℕ) (f e new : ForwarderText) (to_come left : Option (ℕ → ℕ)) (told tells_now tells : Option (List SentText)) (faults more_faults now_faults : ℕ) (report : FlushReport)
    → SendsState moment f new to_come left tells_now tells more_faults now_faults report → f ≡ e → tells_now ≡ told → faults ≤ more_faults
    → SendsState moment e new to_come left told tells faults now_faults report
sends_from moment f e new to_come left told tells_now tells faults more_faults now_faults report s same same_told rose =
    let then = s.rose in
    subst (λ x. SendsState moment x new to_come left told tells faults now_faults report) same
    (subst (λ t. SendsState moment f new to_come left t tells faults now_faults report) same_told (record {
      faults_then = s.faults_then;
      rose = omega (arith, rose, then);
      sends = s.sends;
      others = s.others;
    }))
