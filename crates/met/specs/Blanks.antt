-- Blank diskettes of our service: what an accepted format leaves is a start, and its census lists all sectors in rising order, free.
use Rattle.std.specs.Prelude.{◌≡◌, refl, List, ℕ, ◌*◌, length}
use Rattle.std.proofs.Common.{ap, ◌∙◌}
use Rattle.rules.specs.Bytes.{zeros}
use Rattle.rules.specs.Outcome.{says_of, left_of}
use Rattle.rules.specs.Census.{survey, census}
use Rattle.rules.specs.Format.{blank}
use Rattle.laws.specs.Bytes.{length-zeros}
use Rattle.laws.specs.Addresses.{Shape}
use Rattle.laws.specs.Blank.{small-blank, Formatted, formatted as formatted-law, format-right}
use Rattle.chains.specs.Once.{rising}
use Rattle.chains.specs.Blank.{blank-sized, blank-census}
use Rattle.demands.specs.Service.{Wanted, flex}
use Rattle.demands.specs.Demands.{survey_answer, data_sectors, FromBlank}

abbrev blank_of : Wanted → List ℕ
blank_of w = blank w.last w.per w.label w.volume w.month w.day w.year

-- whatever format answers and leaves
pub formatted : (img : List ℕ) (w : Wanted) → Formatted img w.last w.per w.label w.volume w.month w.day w.year (flex.format img w)
formatted img w = formatted-law img w.last w.per w.label w.volume w.month w.day w.year

module _ (img : List ℕ) (w : Wanted) (h : says_of (flex.format img w) ≡ 0) where
  shape : Shape w.last w.per
  shape = (formatted img w).shaped h

  blank-left : left_of (flex.format img w) ≡ blank_of w
  blank-left = (formatted img w).filled h

  listed : (xs ys : List ℕ) → length xs ≡ w.last * w.per → length ys ≡ w.last * w.per
      → census (left_of (flex.format img w)) xs ys ≡ survey 0 (rising 0 (w.last * w.per)) (zeros (w.last * w.per))
  listed xs ys a b = rw blank-left (blank-census w.last w.per shape w.label w.volume w.month w.day w.year xs ys a b)

  sectors : data_sectors (left_of (flex.format img w)) ≡ w.last * w.per
  sectors =
      let s = blank-sized w.last w.per shape w.label w.volume w.month w.day w.year in
      ap data_sectors blank-left ∙ rw (s.last, s.per) refl

pub from-blank : FromBlank flex
from-blank = record {
  accepts = λ img w z l k. ap says_of (format-right img w.last w.per w.label w.volume w.month w.day w.year z l k);
  begins = λ img w tab h t l c. record {
    accepted =
        ap survey_answer
        (listed img w h _ _ (length-zeros (data_sectors (left_of (flex.format img w))) ∙ sectors img w h) (length-zeros (data_sectors (left_of (flex.format img w))) ∙ sectors img w h));
    bytes =
        rw (blank-left img w h)
        (small-blank w.last w.per w.label w.volume w.month w.day w.year (shape img w h) t.label t.month t.day t.year);
    table = l;
    closed = c;
  };
  lists = λ img w xs ys h a b. listed img w h xs ys a b;
}
