-- Texts put one after the other are one text put: putting goes on where the text before it ended, whatever the buffer holds.
use Rattle.std.proofs.Common.{[], ◌∷◌, ◌++◌, ◌≡◌, refl, sym, ap, ◌∙◌}
use Rattle.rules.specs.Words.{Text}
use Rattle.listing.specs.declared.writer.Writer.{Writer}
use Rattle.listing.specs.Puts.{Page, page, put_one, put_all, Puts}

put_append : (t u : Text) (p : Page) → put_all (t ++ u) p ≡ put_all u (put_all t p)
put_append [] u p = refl
put_append (c ∷ t) u p = put_append t u (put_one c p)

module _ {a b : Writer} {t : Text} where
  pub puts_as : {u : Text} → t ≡ u → Puts a t b → Puts a u b
  puts_as e h = rw (← e) h

  pub puts_then : {u : Text} {c : Writer} → Puts a t b → Puts b u c → Puts a (t ++ u) c
  puts_then {u} h k = record {
    same_buffer = cc;
    page_after = k.page_after ∙ ap (put_all u) h.page_after ∙ sym (put_append t u (page a));
  }

-- of a whole that is put from writer a on, there is `rest` to be put from writer b on
pub record Left (a : Writer) (whole : Text) (b : Writer) (rest : Text) : Type 0 where
  pub same_buffer : b.buffer.ghost_name ≡ a.buffer.ghost_name
  pub page_after : put_all rest (page b) ≡ put_all whole (page a)

pub left_start : {a : Writer} {whole rest : Text} → whole ≡ rest → Left a whole a rest
left_start {a} e = record { same_buffer = refl; page_after = ap (λ t. put_all t (page a)) (sym e) }

module _ {a b : Writer} {whole rest : Text} (l : Left a whole b rest) where
  pub left_next : {c : Writer} {t u : Text} → rest ≡ t ++ u → Puts b t c → Left a whole c u
  left_next {t = t} {u = u} e h = record {
    same_buffer = let k = l.same_buffer in let m = h.same_buffer in cc;
    page_after =
        ap (put_all u) h.page_after ∙ sym (put_append t u (page b)) ∙ ap (λ v. put_all v (page b)) (sym e) ∙ l.page_after;
  }

  pub left_none : rest ≡ [] → Puts a whole b
  left_none e = record {
    same_buffer = l.same_buffer;
    page_after = ap (λ v. put_all v (page b)) (sym e) ∙ l.page_after;
  }
