use Rattle.book.proofs.CornerFormula.{corner_formula}
use Rattle.book.proofs.KeptTallies.{trades_keep, changes_keep, trades_add_up}
use Rattle.book.proofs.MarginAnswers.{corners_bound, corners_suffice, one_margin, sold_bounds}
use Rattle.book.proofs.RightRuns.{runs_right, nets_add_up}
use Rattle.book.proofs.TradeEffects.{sales_raise, purchases_lower}
use Rattle.book.proofs.laws.margin_laws.Goals as goal

pub returns : goal.returns
returns g c =
    let K = g.K.Kind.means in
    let laws = g.met.K.Kind.lawful in
    record {
      bound = corners_bound K laws;
      corners = corners_suffice K laws;
      formula = corner_formula K laws;
      one = one_margin;
      sales = sales_raise K;
      purchases = purchases_lower K;
      sold = sold_bounds K laws;
      trades = trades_keep K;
      changes = changes_keep K;
      adds = trades_add_up K laws;
      runs = runs_right K laws;
      nets = nets_add_up K laws;
    }
