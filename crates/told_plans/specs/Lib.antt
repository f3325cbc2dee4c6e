pub mod PlanNumbers
