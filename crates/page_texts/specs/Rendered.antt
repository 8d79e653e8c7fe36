-- What a render makes of an exporter, and the text that it answers.
use Rattle.std.specs.Prelude.{◌≡◌, ℕ, List}
use Rattle.prom_exporter.specs.Stepped.{Steps}
use Rattle.prom_exporter.specs.Exporter.{Exporter, AllHome, written_body, written_page}

-- The page step was made, and the text is the body of the families that the exporter shows then, as they are written. Where no
-- pass is out that is the page of what it was.
pub record IsRendered (old : Exporter) (moment : ℕ) (new : Exporter) (text : List ℕ) : Type 0 where
  pub steps : Steps moment old new
  pub shown : text ≡ written_body moment new
  pub page : AllHome old → text ≡ written_page moment old
